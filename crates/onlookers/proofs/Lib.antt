-- What a life holds is what it took, so who took the same holds the same; and what is settled for who looks on is settled.
pub mod Sets
pub mod Takes
pub mod Following
pub mod Observed
pub mod Chain
pub mod Grounded
