pub mod Example
pub mod Lengths
