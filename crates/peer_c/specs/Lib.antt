pub mod Answers
pub mod Held
pub mod Joining
pub mod Legal
