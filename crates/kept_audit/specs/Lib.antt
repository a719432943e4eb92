-- What judging kept certificates asks of a caller.
pub mod Judging
