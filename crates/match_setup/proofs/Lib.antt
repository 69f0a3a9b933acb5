pub mod Walls
mod Names
pub mod Cells
mod Computing
pub mod Telling
