pub mod Own
mod Remembered
pub mod Steps
pub mod Texts
mod Whole
mod Numbers
mod Talk
mod Telling
