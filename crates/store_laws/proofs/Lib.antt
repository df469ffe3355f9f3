pub mod Books
pub mod Columns
pub mod FlatTexts
pub mod Records
pub mod Rows
