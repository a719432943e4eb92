-- One chain: the many slots behind it, and the promises.
pub mod Chain
pub mod OneChain
pub mod Watching
