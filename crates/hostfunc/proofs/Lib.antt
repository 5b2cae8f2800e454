pub mod Faults
pub mod Fitting
pub mod Own
