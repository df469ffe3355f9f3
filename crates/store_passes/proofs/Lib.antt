pub mod Alls
pub mod Firsts
pub mod Passing
pub mod Rows
