pub mod Lists
pub mod Making
pub mod Order
