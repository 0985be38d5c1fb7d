pub mod Rows
pub mod inner
