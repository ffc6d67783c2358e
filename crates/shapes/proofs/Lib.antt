pub mod Pieces
pub mod Lists
pub mod Worked
pub mod Apart
pub mod Table
pub mod Places
pub mod Stating
