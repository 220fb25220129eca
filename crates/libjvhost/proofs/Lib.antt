pub mod Few
pub mod Handed
pub mod Owners
pub mod Taken
pub mod Values
