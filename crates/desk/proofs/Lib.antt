pub mod Rings
pub mod Blocks
pub mod Search
pub mod Outcomes
pub mod Histories
pub mod Soon
pub mod Calls
pub mod Fairness
