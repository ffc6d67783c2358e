pub mod Texts
pub mod Terms
pub mod TreeTerms
pub mod Sound
pub mod Theorems
pub mod Restrictions
pub mod Restricting
