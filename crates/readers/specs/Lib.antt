-- What is answered to a host's questions, and cases of it computed.
pub mod Asked
pub mod CornersOfAsked
pub mod Weighed
pub mod CornersOfWeighed
