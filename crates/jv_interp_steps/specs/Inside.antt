pub mod Decoding
pub mod Words
pub mod Going
