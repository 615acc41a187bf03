pub mod Order
pub mod Runs
pub mod Listed
pub mod Calls
pub mod Again
pub mod Play
