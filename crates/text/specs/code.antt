-- What the values of the code stand for. No promise leads here: these definitions are checked, not believed.
pub mod Totals
pub mod Places
pub mod Rows
pub mod Index
pub mod Tests
