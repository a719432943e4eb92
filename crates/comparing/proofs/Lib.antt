-- Laws of what stands aside and of a comparison's line.
pub mod Laws
pub mod Lines
