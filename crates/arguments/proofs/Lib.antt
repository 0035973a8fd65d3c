pub mod Expressions
pub mod Chains
pub mod Pieces
pub mod Arguments
pub mod ArgumentCases
