pub mod ShortNames
pub mod Spellings
pub mod Found
pub mod Theorems
