pub mod Given
pub mod Answers
pub mod RoundTrips
