pub mod Steps
pub mod Bounds
pub mod Answered
pub mod Cases
