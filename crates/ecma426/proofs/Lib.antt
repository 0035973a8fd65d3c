pub mod Agrees
pub mod Boundaries
pub mod LongestRow
pub mod WhiteSpace
