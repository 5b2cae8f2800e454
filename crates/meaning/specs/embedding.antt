-- What surrounds the core (Appendix, Embedding).
pub mod Names
pub mod Commands
pub mod Machine
pub mod Creation
pub mod Refusals
