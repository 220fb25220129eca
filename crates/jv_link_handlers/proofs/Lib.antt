pub mod InPieces
pub mod Merging
pub mod Least
pub mod Asked
