-- What a host feeds, that it is enough, and that feeding ends.
pub mod Mail
pub mod Policy
pub mod Host
pub mod Rounds
mod Cases
