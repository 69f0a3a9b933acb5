pub mod Lists
pub mod Runs
pub mod Items
pub mod Counts
pub mod KeyOrder
pub mod OrderedParts
mod Sorting
mod Front
pub mod CommandLists
pub mod Places
pub mod Due
pub mod Lengths
pub mod NameTrees
mod NamesHeld
mod BlockTrees
mod BlockWalks
pub mod Later
pub mod Shifts
