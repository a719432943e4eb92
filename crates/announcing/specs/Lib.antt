-- What is answered to the question whether a block may be announced now, and cases of it computed.
pub mod Asked
pub mod CornersOfAsked
