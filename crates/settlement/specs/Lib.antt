pub mod Settled
pub mod Promise
pub mod inner
