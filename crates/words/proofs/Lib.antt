pub mod Tests
pub mod Past
