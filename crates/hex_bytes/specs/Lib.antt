-- What the readers of a packet cite.
pub mod Bytes
