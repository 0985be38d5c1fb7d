pub mod Cells
pub mod Laws
pub mod Bookings
pub mod Sides
