pub mod AskedOrders
pub mod KeyVerdicts
pub mod Looking
pub mod NamesWanted
pub mod OpenNonces
pub mod OrderNeeds
pub mod Sparing
