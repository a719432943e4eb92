-- Which command a line of a script is.
pub mod Commands
