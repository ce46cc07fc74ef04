pub mod Instructions
pub mod inner
