pub mod Asked
pub mod Causes
pub mod Desks
pub mod Known
pub mod Making
pub mod Opening
