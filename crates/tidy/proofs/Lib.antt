pub mod Zeros
pub mod Examples
pub mod Outcomes
pub mod Promised
pub mod Puts
pub mod Unique
pub mod Writing
