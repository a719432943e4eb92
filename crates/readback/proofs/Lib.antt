-- Laws of reading back.
pub mod Words
