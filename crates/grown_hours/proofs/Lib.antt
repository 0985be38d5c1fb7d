pub mod Growth
pub mod Sums
pub mod Kept
