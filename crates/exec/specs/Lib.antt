pub mod Resting
pub mod Starting
pub mod Instructions
pub mod Hosting
pub mod Endings
