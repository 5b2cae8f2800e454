-- Lemmas on the contents and the steps of an embedding.
pub mod Causes
pub mod Steps
pub mod Definitions
pub mod Headline
pub mod Isolation
pub mod Counting
