pub mod Salvage
pub mod Asked
pub mod Walks
