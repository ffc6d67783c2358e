pub mod Commands
pub mod Messages
pub mod Replies
pub mod Conversations
pub mod Wholes
pub mod Turns
pub mod Answers
pub mod Editing
