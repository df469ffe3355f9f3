pub mod InLimits
pub mod Laws
pub mod Told
