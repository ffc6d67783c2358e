pub mod FirstName
pub mod Choosing
pub mod Written
