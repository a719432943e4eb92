-- Laws of start, for the crates that cite them.
pub mod Starts
