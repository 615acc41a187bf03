pub mod Moves
pub mod Tests
