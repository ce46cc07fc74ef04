pub mod Numbers
pub mod inner
