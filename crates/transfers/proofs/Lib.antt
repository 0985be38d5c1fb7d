pub mod Bytes
pub mod Failures
pub mod Steps
