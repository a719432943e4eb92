-- The inquest over the words that firms hand in: who is named, and who never is.
pub mod Named
