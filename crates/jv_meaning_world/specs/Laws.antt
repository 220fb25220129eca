pub mod Above
pub mod Library
pub mod Order
pub mod OrderLaws
