pub mod Numbers
pub mod Places
pub mod States
pub mod Writing
