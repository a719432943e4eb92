-- Laws of the door.
pub mod Laws
