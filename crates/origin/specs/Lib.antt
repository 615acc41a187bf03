pub mod Trace
pub mod Asked
pub mod Explains
