pub mod Entitlements
pub mod inner
