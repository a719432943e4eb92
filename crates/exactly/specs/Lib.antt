-- Sentences with "exactly" in them, at the face.
pub mod Tables
pub mod CornersOfTables
pub mod Compared
pub mod Written
