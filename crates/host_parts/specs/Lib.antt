pub mod Blank
pub mod Rising
