-- Which votes a firm's record lacks: what is answered, and left in a lent list.
pub mod Asked
pub mod CornersOfVouched
