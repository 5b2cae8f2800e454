-- What the proofs of the calls use.
pub mod Addresses
pub mod Constants
pub mod Copies
pub mod Hosts
pub mod Imports
pub mod Instances
pub mod Links
pub mod Objects
pub mod Offsets
pub mod Starts
pub mod Tasks
pub mod Validity
