pub mod PrefixFree
pub mod SignedLaws
pub mod UnsignedLaws
pub mod Widths
