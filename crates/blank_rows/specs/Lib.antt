-- A row with nothing in it.
pub mod Blank
pub mod CornersOfBlank
