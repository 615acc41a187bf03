pub mod Walk
pub mod Blocks
pub mod Frames
pub mod Exactly
pub mod Explained
pub mod Worked
