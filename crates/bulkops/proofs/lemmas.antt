-- What the proofs of the calls use.
pub mod Numbers
