pub mod Delivery
pub mod Asks
pub mod Order
pub mod Right
pub mod Promise
pub mod code
