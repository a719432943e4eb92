-- Proofs that arrive in pieces: what the calls answer, the lent state, and what is promised of any run of calls.
pub mod Pieces
pub mod State
pub mod Promises
pub mod CornersOfPieces
pub mod CornersOfState
pub mod CornersOfCalls
