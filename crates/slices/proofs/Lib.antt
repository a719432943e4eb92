-- Laws of words copied.
pub mod Laws
