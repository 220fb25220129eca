pub mod Flowing
pub mod Setting
