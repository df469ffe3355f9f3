pub mod InOrder
pub mod Laws
pub mod Left
pub mod Stepping
