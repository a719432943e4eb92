-- What the contracts of a certificate as numbers cite beside the rule book.
pub mod Told
