pub mod Chunks
pub mod Received
pub mod Within
