-- Laws that the proofs of vote messages cite, and the promises' proofs.
pub mod Tested
pub mod Laid
pub mod Promises
