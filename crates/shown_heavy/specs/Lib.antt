-- Blocks by weight.
pub mod Heavy
