pub mod FrontRows
pub mod Passes
