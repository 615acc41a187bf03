pub mod Families
pub mod Whole
