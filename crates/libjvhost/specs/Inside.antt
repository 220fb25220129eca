pub mod Held
pub mod Jobs
pub mod Owning
