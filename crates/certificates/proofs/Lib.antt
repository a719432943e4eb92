-- Laws that the proofs of one certificate cite.
pub mod Judged
