pub mod KeyShapes
pub mod Labels
pub mod Lives
pub mod Numbers
pub mod PlainData
