pub mod AskedOrders
pub mod NameLaws
pub mod Parsed
pub mod ReadOnce
