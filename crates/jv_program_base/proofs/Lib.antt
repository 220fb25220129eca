pub mod ClassFileNames
pub mod NoLibrary
pub mod NotRead
pub mod Places
