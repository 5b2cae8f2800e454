pub mod structure
pub mod binary
pub mod validation
pub mod execution
pub mod soundness
pub mod embedding
pub mod scripts
