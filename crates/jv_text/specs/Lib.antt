pub mod Text
pub mod Name
pub mod Descriptor
pub mod Seen
pub mod Types
pub mod Inside
