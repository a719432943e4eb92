-- Stored votes.
pub mod Votes
