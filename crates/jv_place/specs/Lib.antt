pub mod Inside
pub mod Instruction
