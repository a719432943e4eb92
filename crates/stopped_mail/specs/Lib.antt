-- The host's form of the promise with a fifth stopped, and that feeding ends.
pub mod Fed
pub mod Rounds
mod Cases
