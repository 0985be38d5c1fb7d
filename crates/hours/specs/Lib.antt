pub mod Hour
pub mod Totals
