pub mod FirstDesksKept
pub mod FoundKeysAre
pub mod KeysThere
pub mod KeyReadings
pub mod PassedRows
pub mod PickedRows
