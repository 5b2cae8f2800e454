-- What each index of a module refers to.
pub mod IndexSpaces
