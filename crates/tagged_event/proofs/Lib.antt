-- What is proved of an event, each file over those before it.
pub mod Reading
pub mod ReadBack
pub mod Fitting
pub mod WriteBack
pub mod Unique
