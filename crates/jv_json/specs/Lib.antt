pub mod Members
pub mod Files
pub mod Lines
