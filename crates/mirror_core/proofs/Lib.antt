mod PlanLaws
mod Consistent
mod Clocks
mod Renewed
mod Kept
mod Opened
mod Calls
mod Along
mod Executed
mod Allowed
pub mod WholeTurns
mod Drained
