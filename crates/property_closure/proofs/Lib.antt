pub mod Plain
pub mod Reflexives
pub mod ChainLists
pub mod Keeping
pub mod Growing
