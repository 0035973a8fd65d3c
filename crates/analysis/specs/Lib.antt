pub mod Mode
pub mod Letters
pub mod Row
pub mod Patterns
pub mod Place
pub mod Matches
pub mod Prefers
pub mod code
