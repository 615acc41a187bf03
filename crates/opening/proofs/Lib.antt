pub mod Header
pub mod Opens
