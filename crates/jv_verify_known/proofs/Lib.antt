pub mod Beside
pub mod Comparing
pub mod Making
pub mod Words
