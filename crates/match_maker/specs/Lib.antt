pub mod Below
pub mod Draws
pub mod Generator
