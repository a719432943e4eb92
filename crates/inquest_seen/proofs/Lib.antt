-- The inquest over words, by the inquest over ledgers.
pub mod Named
