-- What was sent is among what the life told; so a ring whose firms die is a ring.
pub mod Kept
pub mod Deeds
pub mod Ring
pub mod Histories
