pub mod First
pub mod Inside
pub mod Part
pub mod Text
