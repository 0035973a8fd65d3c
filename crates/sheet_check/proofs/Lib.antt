pub mod ByPieces
pub mod Source
pub mod Endings
pub mod Tables
pub mod Trees
pub mod Judging
pub mod SheetCases
