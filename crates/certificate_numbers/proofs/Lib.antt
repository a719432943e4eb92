-- Laws that the proofs of a certificate as numbers cite.
pub mod Parts
pub mod Whole
