-- Laws of the help.
pub mod Laws
