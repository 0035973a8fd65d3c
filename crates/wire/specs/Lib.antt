pub mod Refusals
pub mod Fields
pub mod Number
pub mod Text
pub mod Optional
pub mod code
