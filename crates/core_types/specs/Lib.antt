pub mod Opcodes
pub mod reading
pub mod Expressions
pub mod LocalRuns
pub mod Outcome
