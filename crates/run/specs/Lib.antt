-- What the contracts of the search cite beside the rule book.
pub mod Tried
