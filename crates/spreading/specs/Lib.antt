-- What honest nodes write makes their final blocks final wherever it is handed over; what is never answered 8; and a host that asks before it announces.
pub mod Spreading
pub mod Answers
pub mod Announcing
mod Cases
