pub mod Among
pub mod Distinctness
pub mod InOrder
mod Joins
pub mod KeyedRows
pub mod NestedRows
pub mod Nests
pub mod OrderedRows
pub mod Owners
pub mod Pushed
pub mod Results
pub mod SliceLoops
pub mod SortedFaults
pub mod SortedLists
pub mod SoundBooks
pub mod StableSorts
pub mod Steps
pub mod Swapped
