pub mod Brought
pub mod Play
pub mod Turns
