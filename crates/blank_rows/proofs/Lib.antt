-- Laws of blank rows: words or-ed together, and the words of a row.
pub mod Words
pub mod Rows
