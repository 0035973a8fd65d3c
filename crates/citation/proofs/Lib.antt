mod Fours
mod Recounts
mod Apart
pub mod ColumnsRight
pub mod Lengths
pub mod Few
mod Texts
pub mod Printing
pub mod Whole
mod Cases
