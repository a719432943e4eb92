-- What the panel says of itself, and of a command.
pub mod Manual
pub mod Topics
pub mod Cases
