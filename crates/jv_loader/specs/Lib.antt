pub mod FirstVerdicts
pub mod Inside
pub mod LibraryFault
pub mod Loading
pub mod Straight
