-- What the proofs of the calls use.
pub mod Arguments
pub mod ContextTypes
pub mod Entries
pub mod Instantiation
pub mod LoadedModules
pub mod Lookups
pub mod OwnFunctions
pub mod Positions
pub mod Validity
