pub mod Ranges
pub mod Found
pub mod Reading
