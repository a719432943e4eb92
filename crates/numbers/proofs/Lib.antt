-- Laws that the proofs of numbers cite.
pub mod Turns
pub mod Stores
