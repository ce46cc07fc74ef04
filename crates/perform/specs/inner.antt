pub mod Prints
pub mod Asks
