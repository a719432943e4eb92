-- Laws of what a stored vote can stir.
pub mod Elsewhere
pub mod Later
pub mod Narrow
pub mod Asked
pub mod Stored
