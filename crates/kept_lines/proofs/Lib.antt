-- Laws of kept certificates told, and of their lines in a lent list.
pub mod Signers
pub mod Laws
