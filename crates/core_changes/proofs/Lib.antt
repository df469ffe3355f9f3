pub mod MadeRows
pub mod Moving
pub mod QuietEntries
pub mod Recordings
pub mod RowMoves
pub mod ShownAfter
