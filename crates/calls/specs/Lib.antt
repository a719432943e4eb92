-- What a call is and what arrives with it; lives made of calls, that they are seen, that they can be had, and what a host sees of its calls.
pub mod Operation
pub mod CornersOfCalls
pub mod Life
pub mod Reached
pub mod Observed
pub mod Singly
pub mod Cards
