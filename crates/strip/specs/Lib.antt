pub mod Strip
pub mod Asked
