pub mod Orders
pub mod Readings
