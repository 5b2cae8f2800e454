-- Binary Format.
pub mod Conventions
pub mod Values
pub mod Types
pub mod Instructions
pub mod Modules
pub mod Limits
