pub mod Constants
pub mod Seen
pub mod Rules
pub mod Facts
pub mod Named
pub mod Inside
