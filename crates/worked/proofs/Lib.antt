pub mod Worked
pub mod Allowances
pub mod Demand
