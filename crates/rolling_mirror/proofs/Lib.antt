mod Named
pub mod Windows
mod Kept
pub mod Arrivals
pub mod Turns
mod Opened
pub mod Joined
mod Followed
mod Told
mod Onward
pub mod Standing
mod RunItems
