pub mod Comes
pub mod Programs
pub mod inner
