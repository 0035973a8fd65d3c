pub mod Stored
pub mod Compared
pub mod code
