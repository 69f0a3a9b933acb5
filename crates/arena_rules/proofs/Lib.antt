pub mod Changes
mod Hits
mod Flights
mod Returns
mod Apart
mod Shots
pub mod Dead
mod Lying
mod Ready
mod Numbers
mod Restings
pub mod Worlds
mod Lines
pub mod Same
mod Computing
pub mod Telling
