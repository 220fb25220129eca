pub mod Before
pub mod Found
pub mod Inside
pub mod Onward
pub mod Pass
pub mod Tables
