pub mod Answers
pub mod Faults
pub mod Forms
pub mod Joined
pub mod Mapped
pub mod Named
pub mod Pooled
pub mod Steps
