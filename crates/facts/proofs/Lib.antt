pub mod Least
pub mod Premises
pub mod Sameness
pub mod Facts
pub mod Filling
pub mod Placing
pub mod Chaining
pub mod Tabling
