pub mod Columns
pub mod Citation
pub mod Right
pub mod code
