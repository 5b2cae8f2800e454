pub mod Casts
pub mod Counts
pub mod Quotients
pub mod Rotations
pub mod Shifts
