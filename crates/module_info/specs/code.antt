-- What the values of the code stand for. No promise leads here: these definitions are checked, not believed.
pub mod AcceptedSheet
pub mod Pieces
pub mod Located
pub mod Judged
pub mod Reached
pub mod Views
