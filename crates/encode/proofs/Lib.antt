pub mod Draws
pub mod Blocks
pub mod Parts
pub mod Answers
pub mod Made
