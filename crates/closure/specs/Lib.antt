pub mod Closure
pub mod Theorems
pub mod Denotations
pub mod Groups
