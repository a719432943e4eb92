-- What two lives that accepted the same have in common, in whatever order; and one chain for all who look on.
pub mod Accepted
pub mod Following
pub mod Observed
pub mod Chain
pub mod Grounded
mod Cases
