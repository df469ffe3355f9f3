pub mod Carried
pub mod Chains
pub mod Copies
pub mod Going
pub mod Joined
pub mod SeenInFiles
pub mod Leaving
