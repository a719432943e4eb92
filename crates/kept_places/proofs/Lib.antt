-- Laws of looking through kept certificates, and of the words of their masks.
pub mod Laws
pub mod Families
