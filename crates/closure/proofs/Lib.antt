pub mod Facts
pub mod Least
pub mod Groups
pub mod Names
pub mod Said
pub mod Disjoint
