pub mod Found
pub mod Methods
pub mod Places
