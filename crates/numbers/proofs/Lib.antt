pub mod Buffers
pub mod Digits
pub mod Signed
pub mod Unique
