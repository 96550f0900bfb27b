-- What is proved of the station, each file over those before it.
mod View
mod Parts
mod Back
mod Room
mod Well
mod Formed
mod Once
mod Active
mod Units
mod Largest
mod Word
mod Places
mod Changes
mod Entering
mod Refusing
mod Kept
mod Refused
mod Starting
mod Stepping
mod RunningFrame
mod LentPart
mod Moments
mod Demand
mod HandMade
mod AtWork
pub mod Unique
