pub mod Codes
pub mod Bodies
pub mod Content
pub mod inner
