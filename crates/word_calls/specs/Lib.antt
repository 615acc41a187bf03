pub mod Asked
pub mod Words
