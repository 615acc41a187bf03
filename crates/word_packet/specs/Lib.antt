pub mod Position
pub mod Amid
