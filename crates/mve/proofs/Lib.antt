pub mod Films
