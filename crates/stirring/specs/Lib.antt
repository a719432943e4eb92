-- Which votes can stir a later slot, and what a stored vote leaves of a ledger at rest.
pub mod Stirring
pub mod Touched
