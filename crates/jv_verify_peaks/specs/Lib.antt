pub mod Inside
pub mod Stretches
