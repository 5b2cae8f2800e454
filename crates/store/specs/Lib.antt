pub mod Loaded
pub mod Contents
pub mod Memories
pub mod Tables
pub mod Segments
pub mod State
pub mod Lending
