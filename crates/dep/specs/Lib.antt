pub mod Collect
pub mod InTurn
pub mod Replaced
pub mod code
