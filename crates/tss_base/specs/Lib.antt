pub mod Errors
pub mod Totals
