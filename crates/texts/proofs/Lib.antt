-- Laws of the texts.
pub mod Laws
