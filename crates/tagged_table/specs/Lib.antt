pub mod Form
pub mod Answers
pub mod Examples
pub mod Tags
pub mod Parts
