pub mod Files
pub mod Arguments
pub mod Embeddings
pub mod Performing
