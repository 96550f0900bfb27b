-- What is proved of the job table, each file over those before it.
pub mod Largest
pub mod Tests
pub mod Fit
pub mod Padded
pub mod Back
pub mod Numbers
pub mod Unique
