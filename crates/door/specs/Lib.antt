-- Where lines leave the program.
pub mod Sent
