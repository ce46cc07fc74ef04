pub mod Rest
pub mod Steps
