pub mod Status
pub mod Questions
