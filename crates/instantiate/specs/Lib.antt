pub mod Addresses
pub mod Constants
pub mod Links
pub mod Objects
pub mod Offsets
pub mod Tasks
