-- Validation.
pub mod Types
pub mod Matching
pub mod Context
pub mod Instructions
pub mod ContextExtension
pub mod Modules
pub mod Rows
