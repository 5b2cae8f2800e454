-- `Ok` means a valid module: a typing of what was read.
pub mod Declarations
pub mod Instructions
pub mod ModuleParts
pub mod ReadBodies
pub mod WholeBodies
