pub mod Later
pub mod Stretched
pub mod Words
pub mod Finding
pub mod Flowing
