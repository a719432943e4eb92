-- Progress: the many slots behind it, and the promises.
pub mod Rest
pub mod Progress
pub mod Watching
mod Cases
