pub mod Grammar
pub mod Parsed
pub mod Reader
pub mod Listing
pub mod Origins
pub mod code
