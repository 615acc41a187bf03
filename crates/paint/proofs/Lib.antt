pub mod Counts
pub mod Painting
pub mod Part
