pub mod Bag
pub mod Chains
pub mod Groups
pub mod Order
pub mod Waiting
