pub mod Codec
pub mod Decoded
pub mod Ascii
pub mod Ordered
pub mod Aligned
pub mod Last
pub mod code
