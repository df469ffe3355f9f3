pub mod Made
pub mod Moved
pub mod Recorded
