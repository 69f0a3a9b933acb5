pub mod Windows
pub mod Calls
pub mod Beside
pub mod Starts
mod Owning
