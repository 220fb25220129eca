pub mod Numbers
pub mod Among
pub mod Allowed
pub mod Places
