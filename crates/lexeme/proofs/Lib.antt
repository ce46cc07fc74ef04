pub mod Ahead
pub mod Decoded
pub mod Keywords
pub mod Places
pub mod Scans
pub mod Symbols
pub mod Words
