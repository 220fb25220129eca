pub mod Frames
pub mod Instructions
pub mod Mnemonics
pub mod Rules
