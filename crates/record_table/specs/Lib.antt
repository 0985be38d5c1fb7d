pub mod Table
pub mod inner
