pub mod Format
pub mod Step
pub mod Sound
pub mod Row
pub mod Kept
