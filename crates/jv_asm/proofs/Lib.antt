pub mod Back
pub mod Lengths
pub mod Mapped
pub mod Sizes
pub mod Spelled
