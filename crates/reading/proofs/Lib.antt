pub mod Numbers
pub mod Unique
pub mod Words
