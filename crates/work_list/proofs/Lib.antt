pub mod Lists
pub mod Indexing
