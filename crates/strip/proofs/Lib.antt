pub mod Keeping
pub mod Chunking
pub mod Walking
pub mod Writing
pub mod Worked
