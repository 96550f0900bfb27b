-- What is proved of a state's bytes, each file over those before it.
pub mod Listed
pub mod Stored
pub mod Fullness
pub mod Standing
pub mod ReadBack
pub mod WriteBack
pub mod Unique
