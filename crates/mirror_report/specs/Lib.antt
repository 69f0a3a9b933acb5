pub mod Report
pub mod Stops
