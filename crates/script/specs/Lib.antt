-- What the readers of a script's line cite.
pub mod Words
pub mod Digits
pub mod Numbers
