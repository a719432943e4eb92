-- What the contracts of this crate and of the face cite, and cases of it computed.
pub mod Inputs
pub mod CornersOfInputs
