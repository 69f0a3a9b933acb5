pub mod Called
pub mod Heard
pub mod Issued
pub mod Refused
pub mod Spans
pub mod Turns
