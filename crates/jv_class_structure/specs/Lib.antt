pub mod Structure
pub mod Version
pub mod Flags
pub mod Attributes
pub mod Parts
pub mod Packed
pub mod Seen
pub mod Inside
