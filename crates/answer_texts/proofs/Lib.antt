pub mod More
pub mod Expressions
pub mod Forms
pub mod EachLine
pub mod Reaching
pub mod Classes
pub mod Labelling
