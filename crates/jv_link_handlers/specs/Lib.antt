pub mod Firsts
pub mod Inside
