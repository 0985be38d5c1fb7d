pub mod Meanings
pub mod inner
