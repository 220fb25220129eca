pub mod ClassStates
pub mod HeldInWords
pub mod EffectsInWords
pub mod Executing
pub mod Growing
pub mod Host
