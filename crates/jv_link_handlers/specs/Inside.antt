pub mod Choices
pub mod Finding
pub mod Nodes
pub mod Pieces
