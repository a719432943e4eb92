-- What is shown of kept certificates, defined for any words, slot and place.
pub mod Kept
