-- Laws that the proofs of hex cite.
pub mod Pairs
