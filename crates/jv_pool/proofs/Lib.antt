pub mod Constants
pub mod Listing
pub mod Kept
pub mod Firsts
pub mod NamedBy
pub mod Places
