pub mod Writing
pub mod Promise
pub mod inner
