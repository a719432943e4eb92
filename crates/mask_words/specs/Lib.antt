-- What the contracts of mask_words cite beside the rule book.
pub mod Told
