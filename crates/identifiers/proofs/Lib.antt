pub mod NameOf
pub mod NamesKept
pub mod NamesRead
