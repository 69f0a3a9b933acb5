mod Joins
mod Opens
mod Taken
mod Same
pub mod Handed
pub mod Fits
pub mod Snapshots
pub mod Beside
