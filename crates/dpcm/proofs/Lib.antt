pub mod Samples
pub mod Stride
pub mod Decoding
pub mod Passes
pub mod Packet
