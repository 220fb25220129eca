pub mod KeptTops
pub mod MadeBefore
pub mod Noting
pub mod Replacing
pub mod Storing
