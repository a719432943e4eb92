-- The sums of one pass over a slot's cells.
pub mod Summing
