pub mod Shown
pub mod Walked
