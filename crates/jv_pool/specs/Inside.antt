pub mod Alike
pub mod Known
pub mod Pools
pub mod Reading
