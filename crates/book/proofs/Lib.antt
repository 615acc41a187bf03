pub mod Lawful
pub mod Beyond
pub mod Demand
pub mod Rows
pub mod Picture
pub mod Forms
