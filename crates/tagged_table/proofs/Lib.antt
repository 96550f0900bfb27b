-- What is proved of a table's tagged form, each file over those before it.
pub mod Examples
pub mod Outcome
pub mod Walk
pub mod Lengths
pub mod Longest
pub mod ReadBack
pub mod Ends
pub mod WriteBack
pub mod Needs
pub mod Stored
pub mod Tags
pub mod Left
pub mod Put
pub mod Judged
pub mod Arrays
pub mod Unique
