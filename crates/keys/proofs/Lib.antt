pub mod Blanks
pub mod KeyReadings
pub mod Matches
pub mod Members
pub mod NonceTexts
pub mod Nonces
