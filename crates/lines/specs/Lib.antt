-- The text of the panel's answers.
pub mod Text
pub mod Put
pub mod Page
pub mod Answers
pub mod Figures
pub mod Cases
