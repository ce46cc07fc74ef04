pub mod Tells
pub mod Writes
