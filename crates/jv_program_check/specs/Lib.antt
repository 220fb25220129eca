pub mod Check
pub mod Named
pub mod Text
