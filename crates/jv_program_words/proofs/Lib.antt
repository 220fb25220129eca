mod Lines
mod Texts
