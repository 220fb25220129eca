mod Always
mod Steps
