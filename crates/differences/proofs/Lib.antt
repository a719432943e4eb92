-- Laws of the lines in a lent list.
pub mod Rows
pub mod LineLaws
pub mod Both
pub mod TableLaws
pub mod ListLaws
pub mod Theorems
