pub mod Fed
pub mod Rounds
