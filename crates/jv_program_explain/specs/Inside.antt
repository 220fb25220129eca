pub mod Below
pub mod Numbered
pub mod Walked
pub mod Wanting
