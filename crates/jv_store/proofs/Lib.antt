pub mod Contents
pub mod Rows
pub mod Cuts
pub mod Fills
pub mod LookUps
