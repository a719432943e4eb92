-- Calls that meet their contracts are the rule book's life, and such calls can be made.
pub mod OneCall
pub mod Life
pub mod Observed
pub mod Reached
pub mod Singly
pub mod Cards
