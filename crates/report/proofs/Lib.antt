pub mod KindNumbers
pub mod ReadBack
pub mod Buffers
pub mod Answers
mod Numbers
mod Lossy
pub mod Modes
mod Cases
pub mod Ranges
pub mod Stands
pub mod RangesApart
