pub mod Components
pub mod Names
