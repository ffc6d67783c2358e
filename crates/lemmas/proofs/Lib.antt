pub mod Choices
pub mod Places
pub mod Members
pub mod Mapped
pub mod Pairs
pub mod Ranges
