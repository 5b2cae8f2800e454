pub mod Outputs
pub mod Lines
pub mod Statuses
pub mod Endings
pub mod Prints
