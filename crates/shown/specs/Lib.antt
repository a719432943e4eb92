-- What a record shows to people.
pub mod Shown
pub mod CornersOfShown
