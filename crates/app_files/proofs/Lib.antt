mod Displaced
mod Ending
