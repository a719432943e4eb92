-- Which votes differ: what is answered and left in a lent list, and cases of it computed.
pub mod Rows
pub mod Both
pub mod Lent
pub mod CornersOfLent
