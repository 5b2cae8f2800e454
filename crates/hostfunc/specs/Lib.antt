pub mod Boxes
pub mod Faults
pub mod Tables
