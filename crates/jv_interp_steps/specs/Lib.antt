pub mod Guests
pub mod Stepping
pub mod Running
pub mod Inside
