pub mod Leaves
pub mod Claim
