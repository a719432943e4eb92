-- Laws of taking a certificate packet.
pub mod Accepted
pub mod TakeLaws
pub mod Theorems
