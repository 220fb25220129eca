pub mod Starting
pub mod StartStates
pub mod VerifiedClasses
pub mod Opening
pub mod Started
pub mod Standing
pub mod Beginning
pub mod Showing
