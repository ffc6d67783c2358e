pub mod Numbers
pub mod NoTask
pub mod Additions
pub mod Asking
pub mod VersionWords
pub mod Receiving
