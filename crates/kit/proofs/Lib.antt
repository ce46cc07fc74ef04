pub mod Comes
pub mod Faithful
pub mod Strings
pub mod Unique
