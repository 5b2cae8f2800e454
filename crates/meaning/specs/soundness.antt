-- Appendix, Soundness.
pub mod Values
