pub mod Decided
pub mod HasTexts
pub mod Named
pub mod Outcomes
pub mod Room
pub mod SameRows
pub mod There
