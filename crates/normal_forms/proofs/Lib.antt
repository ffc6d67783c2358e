pub mod Filters
pub mod Sources
pub mod Suffice
