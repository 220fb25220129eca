pub mod Inside
pub mod Known
