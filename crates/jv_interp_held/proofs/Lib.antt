pub mod Popped
pub mod Growths
pub mod Raised
pub mod Unmoved
pub mod Entered
pub mod HostWork
