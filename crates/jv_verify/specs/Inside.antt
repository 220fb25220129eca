pub mod Known
pub mod Numbered
pub mod Read
pub mod Shown
pub mod Typed
