pub mod Numeric
pub mod Outcomes
