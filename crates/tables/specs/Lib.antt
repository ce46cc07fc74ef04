pub mod Filled
pub mod inner
