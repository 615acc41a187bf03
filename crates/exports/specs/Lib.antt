pub mod Calls
pub mod Boundary
pub mod Row
