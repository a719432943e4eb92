-- Laws of kept certificates: as words, and by their places.
pub mod Laws
pub mod ByPlace
