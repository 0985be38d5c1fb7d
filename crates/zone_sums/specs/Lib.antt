pub mod ByZone
pub mod inner
