-- Which votes of a packet a firm's record lacks: what is answered, and left in a lent list.
pub mod Asked
pub mod CornersOfPackets
pub mod Split
pub mod CornersOfSplit
