-- `Invalid` means that there is no typing: every typing of the rest continues.
pub mod AnyOperands
pub mod BlockEnds
pub mod BlockStarts
pub mod Constants
pub mod Covers
pub mod Declarations
pub mod Instructions
pub mod ModuleParts
pub mod RestBodies
pub mod WholeBodies
