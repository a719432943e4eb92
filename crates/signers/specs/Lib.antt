-- What the contracts of the signers cite beside the rule book.
pub mod Masks
