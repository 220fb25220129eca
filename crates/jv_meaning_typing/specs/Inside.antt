pub mod OneWalk
pub mod Upward
