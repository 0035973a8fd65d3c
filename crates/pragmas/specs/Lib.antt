pub mod Asks
pub mod Readings
pub mod Pragmas
pub mod Present
pub mod Origins
pub mod Texts
pub mod SourceMap
pub mod code
