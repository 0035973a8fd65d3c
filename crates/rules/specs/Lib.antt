pub mod Rules
pub mod code
