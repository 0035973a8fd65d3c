pub mod Adds
pub mod Loops
pub mod Arms
pub mod NodeCases
pub mod Reach
