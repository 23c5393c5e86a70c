pub mod Chains
pub mod Handing
