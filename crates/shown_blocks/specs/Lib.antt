-- The blocks that the votes of a slot name, in the order of their numbers.
pub mod Blocks
