pub mod Places
pub mod Names
pub mod Laid
pub mod Contents
pub mod Listed
