pub mod Grid
pub mod Walk
pub mod Sizes
pub mod Exactly
pub mod Apart
pub mod Agree
pub mod Forms
pub mod Strip
