pub mod Inside
pub mod Open
