pub mod Blaming
pub mod BrokenFinals
pub mod Contents
pub mod Explaining
pub mod Named
pub mod Refused
pub mod Standing
