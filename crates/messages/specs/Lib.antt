pub mod Messages
pub mod Numbers
pub mod Types
pub mod Values
