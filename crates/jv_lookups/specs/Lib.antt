pub mod Defaults
pub mod FinalKeys
pub mod Finals
pub mod Inside
pub mod Packages
pub mod Places
