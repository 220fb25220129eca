pub mod Inside
pub mod Rows
pub mod Seen
pub mod Text
pub mod Unmet
pub mod Wants
