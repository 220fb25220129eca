pub mod Answers
pub mod Inside
pub mod Layouts
pub mod Objects
pub mod Orders
pub mod Seen
pub mod UseRules
