pub mod Answers
pub mod Boundary
pub mod Steps
pub mod Row
