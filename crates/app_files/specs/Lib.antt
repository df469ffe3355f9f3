pub mod Endings
pub mod Faults
