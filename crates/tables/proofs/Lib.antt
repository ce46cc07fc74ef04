pub mod Emits
pub mod Filled
pub mod Stores
