pub mod Explained
pub mod Finals
pub mod Inside
pub mod Names
pub mod Supers
pub mod Text
