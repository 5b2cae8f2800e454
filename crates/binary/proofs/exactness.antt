-- The reading functions are sound and complete: what they read has this encoding, and what has this encoding is read.
pub mod Readers
pub mod Choices
pub mod Integers
pub mod Values
pub mod Types
pub mod instructions
pub mod Nesting
pub mod Expressions
pub mod sections
pub mod Modules
pub mod CutBodies
