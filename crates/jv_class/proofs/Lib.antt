pub mod Facts
pub mod Kept
pub mod Each
pub mod ShownOf
pub mod Keys
pub mod Whole
pub mod Values
pub mod Classes
