-- What is seen of live nodes is what `stopped` speaks of.
pub mod Weights
pub mod Stopped
pub mod Silent
pub mod Fed
pub mod Reached
