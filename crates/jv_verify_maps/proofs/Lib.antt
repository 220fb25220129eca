pub mod Added
pub mod Entries
pub mod Keeping
pub mod Laying
pub mod Views
pub mod Whole
