-- What the values of the code stand for. No promise leads here: these definitions are checked, not believed.
pub mod Covering
pub mod Commented
pub mod Lent
pub mod Tables
pub mod Views
