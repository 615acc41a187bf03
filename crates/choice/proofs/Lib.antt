pub mod First
pub mod Colours
pub mod Best
pub mod Rows
