pub mod Demand
pub mod Beyond
pub mod Rows
pub mod Picture
pub mod Forms
