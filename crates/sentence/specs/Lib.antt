pub mod Sentences
pub mod Grammar
