-- What the contracts of the look at a slot cite beside the rule book.
pub mod Dormant
pub mod CornersOfDormancy
