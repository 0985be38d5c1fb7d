pub mod Balance
pub mod Flow
pub mod Lake
pub mod Payment
pub mod inner
