pub mod Answers
pub mod Causes
pub mod Exports
pub mod Obeying
