pub mod Reading
pub mod Nodes
pub mod Steps
pub mod Table
