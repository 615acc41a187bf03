pub mod Salvages
