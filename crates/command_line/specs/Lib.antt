pub mod Depths
pub mod Numbers
pub mod Commands
pub mod Subcommands
