pub mod Objects
pub mod Problems
pub mod RefusalReplies
pub mod Refused
