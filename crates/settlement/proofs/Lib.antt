pub mod Stages
pub mod Read
pub mod Promised
pub mod Bounded
pub mod Long
