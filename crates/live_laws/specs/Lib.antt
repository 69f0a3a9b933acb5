pub mod Arena
pub mod Events
pub mod Record
pub mod Talks
