-- Lemmas on lists of imports and exports.
pub mod Growing
