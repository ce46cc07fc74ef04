pub mod Compiled
pub mod Answers
pub mod inner
