pub mod Hasher
pub mod States
pub mod Numbering
