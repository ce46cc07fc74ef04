pub mod Coded
pub mod Buffers
