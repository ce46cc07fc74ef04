pub mod Short
pub mod Unique
