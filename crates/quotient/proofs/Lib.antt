pub mod Nearest
pub mod Halves
pub mod Rounded
pub mod Laws
pub mod Step
pub mod Examples
