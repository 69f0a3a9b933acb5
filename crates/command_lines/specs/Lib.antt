pub mod CommandLine
pub mod Seen
pub mod Faults
