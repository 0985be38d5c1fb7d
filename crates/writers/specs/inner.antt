pub mod Prepended
pub mod Wrote
