-- Laws of the text of answers.
pub mod Putting
pub mod Paging
pub mod Digits
pub mod Composed
pub mod Records
