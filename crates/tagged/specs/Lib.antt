pub mod Words
pub mod Operations
pub mod Answers
pub mod Refusals
pub mod Rule
