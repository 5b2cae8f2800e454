mod Paths
mod Words
mod NamedFiles
mod Loading
mod Runs
