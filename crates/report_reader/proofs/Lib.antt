pub mod FromBytes
pub mod KindsTold
pub mod Lists
pub mod Parts
