pub mod Cases
pub mod Allowances
pub mod Demand
