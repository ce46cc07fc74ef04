pub mod Tidy
pub mod inner
