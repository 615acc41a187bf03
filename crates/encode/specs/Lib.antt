pub mod Encode
pub mod Asked
pub mod Draws
