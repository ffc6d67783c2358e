pub mod Spelling
pub mod Reading
pub mod Views
pub mod Faults
pub mod Messages
