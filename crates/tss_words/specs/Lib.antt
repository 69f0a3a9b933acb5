pub mod Ending
pub mod Subcommands
