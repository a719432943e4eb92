-- Blocks are final: what stands behind a node's own votes, the promises, and the host's form of their premise.
pub mod Calm
pub mod Finals
pub mod Fed
pub mod Cases
