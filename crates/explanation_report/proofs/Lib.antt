pub mod Fits
pub mod Numbered
