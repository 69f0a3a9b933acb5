pub mod Soak
pub mod Agree
pub mod Answer
