pub mod Resolved
pub mod Vanished
pub mod Held
pub mod Found
