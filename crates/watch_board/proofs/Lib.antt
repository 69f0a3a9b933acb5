pub mod Closing
pub mod Counting
pub mod Places
pub mod Telling
pub mod Told
