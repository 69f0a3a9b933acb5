mod Faults
mod Forgets
mod Joins
mod Made
mod Shorts
mod Takes
mod Turned
