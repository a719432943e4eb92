-- Laws of a tray.
pub mod OneVote
pub mod Cuts
pub mod AllVotes
pub mod Ways
pub mod Theorems
