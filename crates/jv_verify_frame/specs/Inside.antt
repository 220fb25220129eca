pub mod Before
pub mod Cut
pub mod Noted
pub mod Swapped
pub mod Tops
