pub mod ValuesInWords
pub mod FramesInWords
pub mod StatesInWords
pub mod Inside
pub mod Going
pub mod Opcodes
pub mod Stepping
pub mod Running
