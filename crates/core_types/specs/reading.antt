-- Reading operations from bytes.
pub mod Conventions
pub mod Values
pub mod Types
pub mod Instructions
pub mod Bodies
