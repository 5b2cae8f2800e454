mod Numbering
mod Sorting
mod Halving
