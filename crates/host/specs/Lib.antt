-- Answers of the public operations, in the face's words.
pub mod Answered
