pub mod Components
pub mod InGuest
pub mod OnWords
pub mod PoolConstants
