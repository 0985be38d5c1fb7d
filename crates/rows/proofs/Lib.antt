pub mod NotMet
pub mod Refusing
