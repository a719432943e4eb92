-- The text of each number.
pub mod Texts
pub mod Cases
