pub mod Fitting
pub mod Spellings
