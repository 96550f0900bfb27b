-- What is proved of replay's text, each file over those before it.
pub mod Examples
pub mod Stored
pub mod Chained
mod Printed
mod LogWalk
mod Due
mod TableTaken
mod Whole
pub mod Unique
