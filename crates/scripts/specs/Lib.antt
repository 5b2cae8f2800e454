pub mod Kinds
pub mod Reading
pub mod Views
pub mod Reads
pub mod Faults
pub mod Conversations
pub mod FileMaps
pub mod Runs
