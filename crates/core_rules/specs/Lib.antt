pub mod Lists
pub mod Making
pub mod Needs
pub mod OrderVerdicts
