pub mod Answered
pub mod Blocked
pub mod Typings
pub mod Walking
