-- What the contracts of numbers cite beside the rule book.
pub mod Written
