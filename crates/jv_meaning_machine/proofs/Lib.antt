pub mod Ended
mod Contents
mod Mains
pub mod Leading
pub mod KeptMemory
mod KeptOutcomes
mod KeptArrays
mod KeptCalls
mod KeptInstructions
pub mod Began
mod KeptControl
mod KeptSteps
pub mod Fed
mod KeptAlone
mod Statics
mod Going
mod Ends
mod Forward
mod Stores
pub mod TakenItems
mod StoreInstructions
mod NewObjects
mod StepDoes
mod Decoding
mod Shown
pub mod Rooting
