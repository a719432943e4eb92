-- Laws of the lines in a lent list.
pub mod Laws
