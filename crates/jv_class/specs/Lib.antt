pub mod Rules
pub mod Supported
pub mod ClassFile
pub mod Value
pub mod Class
pub mod Inside
