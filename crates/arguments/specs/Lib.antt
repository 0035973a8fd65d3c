pub mod Argument
pub mod code
