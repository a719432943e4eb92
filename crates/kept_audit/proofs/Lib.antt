-- Laws of judging kept certificates, for the crates that cite them.
pub mod Laws
