pub mod AdvanceLemmas
pub mod Making
pub mod Meanings
pub mod StaysLemmas
pub mod Steps
