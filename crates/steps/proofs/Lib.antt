pub mod Decoding
pub mod Written
pub mod Bytes
pub mod Running
pub mod Tables
