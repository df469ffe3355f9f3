pub mod Civil
pub mod Dates
pub mod March
pub mod Months
pub mod Texts
pub mod Written
