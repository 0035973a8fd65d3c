pub mod Numerals
pub mod Requests
pub mod Bodies
pub mod Writing
