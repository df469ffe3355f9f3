pub mod Closing
pub mod Formats
pub mod LeftFiles
pub mod Opening
pub mod Openings
pub mod StoredDesks
