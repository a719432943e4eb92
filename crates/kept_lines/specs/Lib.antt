-- Kept certificates of a slot: what is told of each, what is answered, and left in a lent list.
pub mod Told
pub mod Lent
pub mod CornersOfKept
