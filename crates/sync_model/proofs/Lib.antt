pub mod Settle
pub mod Proposals
pub mod Lists
pub mod Trailing
pub mod Staggered
pub mod Cases
pub mod Answered
pub mod Limits
pub mod Plans
pub mod Clocks
pub mod Along
pub mod Drain
pub mod Turning
mod Played
pub mod History
pub mod Room
pub mod Alike
pub mod Legal
pub mod Repairs
pub mod Arrivals
pub mod Rebuilt
mod Replies
mod Computing
mod Alone
pub mod Epochs
pub mod Renewals
pub mod Following
pub mod HostWorlds
pub mod Forgetting
pub mod Forgotten
pub mod TimeOrder
pub mod Openings
