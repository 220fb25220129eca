pub mod Closed
pub mod Law
pub mod Rows
