pub mod Cuts
pub mod Order
pub mod Play
