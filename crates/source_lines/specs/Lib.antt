pub mod Sources
pub mod Lines
pub mod Places
pub mod Fields
