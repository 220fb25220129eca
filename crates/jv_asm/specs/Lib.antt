pub mod Description
pub mod Fits
pub mod Items
pub mod Law
