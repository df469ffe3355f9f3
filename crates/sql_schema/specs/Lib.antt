pub mod Advances
pub mod Defined
pub mod Definitions
pub mod Failing
pub mod Names
pub mod Schema
pub mod Stays
