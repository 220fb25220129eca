mod Among
pub mod There
