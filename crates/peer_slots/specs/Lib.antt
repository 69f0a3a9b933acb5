pub mod Links
pub mod Queues
pub mod Opened
