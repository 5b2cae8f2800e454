-- Each loop reads what the reading function reads.
pub mod Values
pub mod Code
pub mod Custom
pub mod DataNames
pub mod Bodies
pub mod Expressions
