pub mod Inside
pub mod Laws
pub mod Method
pub mod Objects
pub mod Operands
