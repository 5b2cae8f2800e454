mod Lines
mod Verdicts
