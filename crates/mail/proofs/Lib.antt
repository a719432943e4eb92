-- What is fed is enough, by the policy for blocks too; and that feeding ends, and can always go on.
pub mod Votes
pub mod Timeouts
pub mod Places
pub mod Policy
pub mod Host
pub mod Quiet
pub mod Rounds
pub mod Arrivals
pub mod Marks
pub mod Offers
pub mod Feeding
