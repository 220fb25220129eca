pub mod Inside
pub mod Wanted
