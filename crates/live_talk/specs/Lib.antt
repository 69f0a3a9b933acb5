pub mod Head
pub mod Lines
pub mod Parts
pub mod Staging
pub mod Talked
