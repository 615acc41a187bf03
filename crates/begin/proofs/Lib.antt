pub mod Before
pub mod Twin
pub mod Possible
pub mod Until
