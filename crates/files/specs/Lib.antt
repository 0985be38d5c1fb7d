pub mod Files
pub mod inner
