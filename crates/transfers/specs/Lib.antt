pub mod Transfer
pub mod inner
