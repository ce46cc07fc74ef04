pub mod Lexemes
pub mod inner
