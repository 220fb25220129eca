pub mod Elements
pub mod Marks
