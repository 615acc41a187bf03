pub mod Samples
pub mod Channels
pub mod Stride
pub mod Packet
