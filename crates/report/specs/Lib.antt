pub mod Text
pub mod Examples
pub mod Log
pub mod Replay
