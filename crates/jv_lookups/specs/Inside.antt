pub mod FinalNumbers
pub mod Fronts
pub mod Keys
pub mod Members
pub mod Numbers
pub mod Overridden
pub mod Stamps
pub mod Steps
