pub mod Desk
pub mod History
pub mod Fair
pub mod Block
