-- Blocks that two records keep with two parents: the lines, and what is answered.
pub mod Parents
pub mod CornersOfParents
