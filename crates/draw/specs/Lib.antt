pub mod Drawing
pub mod Call
pub mod Asked
pub mod Taken
pub mod Forms
