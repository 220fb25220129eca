pub mod Behind
pub mod Kept
pub mod Methods
pub mod Pooled
