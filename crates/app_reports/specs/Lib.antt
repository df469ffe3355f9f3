pub mod About
pub mod Filter
pub mod Listed
pub mod Printed
pub mod Reported
pub mod Tallied
pub mod Visible
