-- What the values of the code stand for. No promise leads here: these definitions are checked, not believed.
pub mod Pieces
pub mod Rows
pub mod Cleared
