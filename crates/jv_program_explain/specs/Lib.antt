pub mod Explain
pub mod Frames
pub mod Inside
pub mod Listing
pub mod Named
pub mod Text
