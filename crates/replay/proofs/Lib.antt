pub mod Compared
pub mod StoredRows
