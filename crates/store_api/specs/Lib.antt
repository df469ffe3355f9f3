pub mod Finding
pub mod Laws
pub mod Naming
pub mod Needing
pub mod Nesting
pub mod Sight
pub mod Storing
