-- What is looked for among a slot's kept certificates.
pub mod Seeking
