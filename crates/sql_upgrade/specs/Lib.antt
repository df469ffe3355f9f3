pub mod Checked
pub mod FirstDesks
pub mod FoundKeys
