pub mod Value
pub mod Asked
pub mod Pixel
