pub mod Chunks
pub mod Holds
