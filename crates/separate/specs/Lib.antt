pub mod Separate
