-- What the contracts of the writers cite beside the rule book.
pub mod Writing
