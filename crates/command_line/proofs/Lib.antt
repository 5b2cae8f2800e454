mod Numerals
mod Building
mod Matching
