pub mod Added
pub mod Loops
pub mod Arms
pub mod Counted
pub mod Reach
pub mod Callee
pub mod Turns
pub mod EntryAttributes
pub mod Replaced
mod Cases
pub mod Revised
