pub mod Parts
pub mod Reasons
pub mod Numbers
pub mod Promised
pub mod Long
