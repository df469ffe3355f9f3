pub mod EachIn
pub mod Plain
pub mod PlainLists
pub mod ReadObjects
mod PlainTexts
mod ShortTexts
