pub mod OfThree
pub mod Paths
pub mod Terms
