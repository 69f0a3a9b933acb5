pub mod Draining
mod Shown
pub mod Taken
