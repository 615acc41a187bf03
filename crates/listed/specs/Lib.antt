pub mod Store
pub mod Order
