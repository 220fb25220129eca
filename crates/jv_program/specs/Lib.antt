pub mod Command
pub mod Inside
pub mod Status
pub mod Written
