-- What telling of a final block asks of a caller, and that what is final was told of.
pub mod Telling
pub mod Finals
pub mod CornersOfWalks
