pub mod Behind
pub mod Passing
pub mod Pools
