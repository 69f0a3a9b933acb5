pub mod AuditLaws
mod BlockLines
pub mod Lengths
pub mod Named
pub mod TextLaws
mod WalkLaws
pub mod VerdictLaws
