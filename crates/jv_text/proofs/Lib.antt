pub mod Texts
pub mod Names
pub mod Marked
pub mod Fields
pub mod Methods
pub mod TypesOf
