pub mod Inside
pub mod Mapped
pub mod Numbered
pub mod Outcomes
pub mod Typed
pub mod Current
pub mod Operands
pub mod PoolTypes
