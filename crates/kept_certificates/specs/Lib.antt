-- What a record keeps at a place for certificates, as it is lent and stored.
pub mod Kept
