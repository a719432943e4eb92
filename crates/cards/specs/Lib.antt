-- What is answered to the question for a slot's card, and cases of it computed.
pub mod Asked
pub mod CornersOfAsked
