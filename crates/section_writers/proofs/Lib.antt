pub mod Sections
pub mod Mapped
