pub mod Form
pub mod Answers
pub mod Kinds
