pub mod Attributes
pub mod Right
pub mod code
