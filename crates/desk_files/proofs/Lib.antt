pub mod Adopting
pub mod Closed
pub mod Finding
pub mod Opened
pub mod Refused
