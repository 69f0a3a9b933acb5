pub mod Stored
pub mod Rising
