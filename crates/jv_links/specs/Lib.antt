pub mod Inside
pub mod References
pub mod Text
pub mod Unresolved
