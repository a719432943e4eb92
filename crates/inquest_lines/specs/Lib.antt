-- Lines of the inquest in a lent list: what is answered, and the list afterwards.
pub mod Lent
pub mod CornersOfLent
