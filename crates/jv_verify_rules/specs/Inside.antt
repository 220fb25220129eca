pub mod Objects
pub mod Popping
pub mod Words
pub mod ByTypes
pub mod Constructed
pub mod Over
pub mod Used
