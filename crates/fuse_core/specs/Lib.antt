pub mod AreMatched
pub mod Book
pub mod Marks
pub mod Step
pub mod Balanced
pub mod OnePerMessage
pub mod Owing
