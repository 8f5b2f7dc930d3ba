mod Steps
mod LiveThreads
mod Rounds
mod PlaceTurns
mod InOrder
mod ToldStacks
pub mod ScheduleLaws
mod Finished
