-- What the contracts of one certificate cite beside the rule book.
pub mod Told
