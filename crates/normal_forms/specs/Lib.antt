pub mod Occurrences
pub mod Forms
pub mod Origins
pub mod Properties
pub mod Theorems
pub mod StoredForms
pub mod Apart
pub mod SharedLists
