pub mod Files
pub mod Flow
pub mod Library
pub mod Order
pub mod System
