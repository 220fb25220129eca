pub mod Elements
pub mod Refs
pub mod Standing
pub mod Slots
pub mod Numbering
