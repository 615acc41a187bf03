pub mod Walk
pub mod Amid
