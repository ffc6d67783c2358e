pub mod Members
pub mod Marks
pub mod Pieces
pub mod Search
pub mod Transposition
pub mod Words
pub mod Numbers
pub mod RowWords
