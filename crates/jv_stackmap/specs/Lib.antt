pub mod Bytes
pub mod Types
pub mod Seen
pub mod Frames
pub mod Initial
pub mod Entries
pub mod Rows
pub mod Inside
