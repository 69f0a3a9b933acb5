pub mod Session
pub mod Stands
pub mod Told
pub mod Way
pub mod Talk
pub mod Numbers
