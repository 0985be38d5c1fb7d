pub mod Returns
pub mod Marked
