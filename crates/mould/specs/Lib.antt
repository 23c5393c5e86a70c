pub mod Plan
pub mod Handed
pub mod Words
