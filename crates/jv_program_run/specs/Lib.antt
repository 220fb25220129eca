pub mod Feeding
pub mod Guests
pub mod Instruction
pub mod Json
pub mod Inside
pub mod Named
pub mod Outcome
pub mod Report
