pub mod Prepending
pub mod Writing
pub mod Decimal
pub mod Signs
pub mod Names
