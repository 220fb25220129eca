pub mod MainBegins
pub mod FirstStates
pub mod AcceptedClasses
pub mod WithAbove
pub mod VerifiedTold
pub mod MainFound
pub mod Opened
pub mod StartedStands
pub mod FewClasses
pub mod Safe
pub mod Later
pub mod Fed
pub mod Shown
pub mod Elsewhere
pub mod Begun
mod OneStep
pub mod PlaceShown
