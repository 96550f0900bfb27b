-- What is proved of the exported functions.
pub mod Fresh
pub mod Unique
