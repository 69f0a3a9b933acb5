pub mod Owners
pub mod Scene
pub mod Command
pub mod Beat
pub mod World
pub mod Block
pub mod Kept
pub mod Worked
