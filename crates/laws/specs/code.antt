-- What the values of the code stand for. No promise leads here: these definitions are checked, not believed.
pub mod Left
pub mod Told
pub mod Among
