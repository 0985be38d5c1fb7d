pub mod Room
pub mod Examples
