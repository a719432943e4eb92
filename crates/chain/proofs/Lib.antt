pub mod OneChain
pub mod Chains
pub mod Watching
