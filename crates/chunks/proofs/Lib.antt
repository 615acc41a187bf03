pub mod Heads
pub mod Testing
pub mod Holding
pub mod Moved
