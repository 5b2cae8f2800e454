pub mod Accesses
pub mod Growth
pub mod Memories
pub mod Tables
