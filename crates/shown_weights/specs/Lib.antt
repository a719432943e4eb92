-- What the votes of a slot weigh, defined for any words and any slot.
pub mod Weights
