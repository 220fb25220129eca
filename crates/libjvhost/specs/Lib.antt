pub mod Calls
pub mod Codes
pub mod Handles
pub mod Inside
pub mod Told
