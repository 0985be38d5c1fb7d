pub mod Text
pub mod Written
pub mod inner
