pub mod Packets
pub mod Row
pub mod Kept
pub mod Outcome
pub mod Dropped
