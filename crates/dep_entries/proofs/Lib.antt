pub mod Wrote
pub mod Noting
