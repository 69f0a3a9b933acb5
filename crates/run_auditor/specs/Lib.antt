pub mod Arena
pub mod Audit
pub mod Verdicts
pub mod Walks
