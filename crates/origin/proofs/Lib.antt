pub mod Inside
pub mod Answers
pub mod Explains
