pub mod Beyond
pub mod Inside
pub mod Mnemonics
pub mod Rows
pub mod Text
pub mod Uses
