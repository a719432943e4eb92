-- Laws that the proofs of the readers cite.
pub mod Digits
pub mod Reading
