-- What stands aside, how a comparison is answered, and a record's bytes.
pub mod Compared
pub mod Cases
