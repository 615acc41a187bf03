pub mod Packet
pub mod Verdict
pub mod Accepted
pub mod Asked
pub mod Forms
pub mod Rows
