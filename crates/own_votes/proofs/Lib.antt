-- Laws that the proofs of the own votes cite.
pub mod WindowLaws
