pub mod Adds
pub mod Forms
pub mod Short
pub mod Times
pub mod Unique
