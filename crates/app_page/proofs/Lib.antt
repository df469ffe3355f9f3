pub mod Showing
pub mod Writing
