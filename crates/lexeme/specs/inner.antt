pub mod Coded
pub mod Spotting
