pub mod Behind
pub mod Lists
