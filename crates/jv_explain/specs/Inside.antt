pub mod Blamed
pub mod Overridden
pub mod Said
