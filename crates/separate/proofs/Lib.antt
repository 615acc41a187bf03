pub mod Same
pub mod Separate
