pub mod Answers
pub mod GoodFactors
pub mod Longest
pub mod RowHere
pub mod Answered
