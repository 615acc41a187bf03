pub mod Laws
pub mod Bytes
pub mod Leaving
pub mod Twice
pub mod Simulation
pub mod Claim
