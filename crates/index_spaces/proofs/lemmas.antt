-- Lemmas on index spaces.
pub mod IndexSpaces
