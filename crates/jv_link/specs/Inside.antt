pub mod Called
pub mod Climbing
pub mod Enumerating
pub mod References
pub mod Steps
