pub mod Imports
pub mod Demand
pub mod ByComment
pub mod Origins
