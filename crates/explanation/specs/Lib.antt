pub mod Explanation
pub mod Found
pub mod Promise
