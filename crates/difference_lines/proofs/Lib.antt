-- The promises of the lines of two ledgers, kept.
pub mod Ascending
pub mod Exactly
pub mod Ordered
pub mod Theorems
