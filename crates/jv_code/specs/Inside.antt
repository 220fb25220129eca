-- Definitions that contracts of private functions and proofs use alone.
pub mod Shapes
pub mod SwitchReading
pub mod Reading
pub mod Skipping
pub mod StartTable
