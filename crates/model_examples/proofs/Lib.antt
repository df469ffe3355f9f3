pub mod Computing
pub mod FiftyNames
pub mod Hashing
pub mod Naming
pub mod Orders
pub mod PlainNames
pub mod TouchedRows
