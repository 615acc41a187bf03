pub mod Code
pub mod Frame
pub mod Asked
pub mod Explained
pub mod Accepted
