pub mod WhiteSpace
pub mod Grammar
pub mod Reader
