pub mod Shift
mod Names
pub mod Taken
pub mod Joining
pub mod Turned
mod Arriving
pub mod Begun
