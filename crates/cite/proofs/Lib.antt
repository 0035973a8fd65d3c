pub mod Printed
pub mod Placed
pub mod Revised
