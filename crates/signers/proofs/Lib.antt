-- Laws that the proofs of the signers cite.
pub mod Signers
pub mod KeptMasks
