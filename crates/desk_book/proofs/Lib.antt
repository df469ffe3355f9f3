pub mod Applied
pub mod KeyedRows
pub mod Sweeping
pub mod SweptRows
