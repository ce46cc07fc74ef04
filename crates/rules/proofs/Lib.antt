pub mod Depths
pub mod Listed
pub mod Pairs
pub mod Runs
pub mod Strings
pub mod Tried
