-- Which own votes do not stand: what is answered, and left in a lent list.
pub mod Asked
pub mod CornersOfAsked
