pub mod Update
pub mod Gradient
pub mod Entries
pub mod Mask
pub mod Asked
