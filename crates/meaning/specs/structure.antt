-- Structure.
pub mod Bodies
