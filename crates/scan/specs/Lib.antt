pub mod Scan
pub mod Dearest
pub mod Answers
