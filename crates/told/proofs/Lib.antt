-- What each way of making a record adds to a count of records is what it adds to the ledger.
pub mod Counting
pub mod Once
pub mod Told
pub mod Held
pub mod Parts
pub mod Counted
pub mod Apart
pub mod All
