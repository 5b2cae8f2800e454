-- Lemmas, by topic.
pub mod Lists
pub mod Numbers
pub mod Names
pub mod Talks
pub mod Whole
