pub mod Origins
pub mod BothBuffers
