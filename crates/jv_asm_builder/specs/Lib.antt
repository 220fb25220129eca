pub mod Added
pub mod Assembly
pub mod Built
pub mod Faults
pub mod Inside
pub mod Instructions
pub mod Law
