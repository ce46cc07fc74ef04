pub mod Matches
pub mod Runs
pub mod Words
pub mod Unique
