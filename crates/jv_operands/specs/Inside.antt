pub mod Listed
pub mod Locals
pub mod Met
pub mod Named
