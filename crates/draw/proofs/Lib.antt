pub mod Judged
pub mod Going
pub mod Called
pub mod Exactly
pub mod Forms
pub mod Over
