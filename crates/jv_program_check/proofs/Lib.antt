pub mod InLines
pub mod NotRead
pub mod Read
