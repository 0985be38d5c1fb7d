pub mod Sheet
pub mod Passed
pub mod inner
