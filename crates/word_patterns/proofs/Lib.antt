pub mod Rows
pub mod Bands
