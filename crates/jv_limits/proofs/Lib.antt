pub mod LongFiles
