pub mod Fronts
pub mod Unopened
