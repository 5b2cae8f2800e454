-- Scripts: lists of commands that load, link and call modules and state the expected result. They are this project's own.
pub mod Commands
pub mod Dialogues
pub mod Runner
