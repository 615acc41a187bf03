pub mod Choice
pub mod Asked
