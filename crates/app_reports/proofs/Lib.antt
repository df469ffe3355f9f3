pub mod Counting
pub mod Listing
pub mod Printing
pub mod Reporting
pub mod Searching
pub mod SoFar
