-- What is promised of vote messages.
pub mod Promises
