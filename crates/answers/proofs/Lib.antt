-- Laws that the face's proofs cite.
pub mod OneResult
