-- Laws that the proofs of the checker cite.
pub mod Laws
