pub mod Fields
pub mod Statics
pub mod Inside
pub mod Methods
pub mod Known
pub mod Resolved
pub mod Calling
pub mod Using
