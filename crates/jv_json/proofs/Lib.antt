pub mod Plain
mod InFiles
