pub mod Content
pub mod Placed
