pub mod Decimals
pub mod Inverse
pub mod Proper
pub mod Reread
pub mod Tidied
