pub mod Codes
pub mod Table
pub mod Written
pub mod Answers
pub mod Patterns
pub mod code
