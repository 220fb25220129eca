pub mod ObjectsInBlocks
pub mod NewBlocks
pub mod Narrowing
pub mod SystemNumbers
