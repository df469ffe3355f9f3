pub mod ChallengeNumbers
pub mod StoredChildren
pub mod InPlace
pub mod Differing
pub mod Numbered
pub mod NestedRows
pub mod Over
pub mod PlacedRows
pub mod KeyRows
mod ListedAfter
pub mod RowsInTurn
pub mod MadeChanges
pub mod BackFits
pub mod OrderedFit
pub mod Leaving
pub mod Exits
pub mod StoredRows
pub mod Told
pub mod Written
mod Upgraded
pub mod RowWrites
