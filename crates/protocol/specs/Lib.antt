pub mod Rules
pub mod Standards
