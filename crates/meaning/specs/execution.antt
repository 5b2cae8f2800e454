-- Execution.
pub mod Values
pub mod Store
pub mod Numerics
pub mod Storage
pub mod Memories
pub mod Tables
pub mod Configurations
pub mod Costs
pub mod Effects
pub mod Instructions
pub mod Layers
pub mod Runs
pub mod Hosts
pub mod Modules
pub mod Rows
