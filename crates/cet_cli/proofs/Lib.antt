pub mod ReaderSteps
mod Signs
mod Tables
mod Filled
mod WordSteps
mod LineReads
pub mod Faulty
mod FaultyLines
mod StopLaws
mod Kept
pub mod CommandWords
pub mod CallWords
mod EveryOption
mod ItemLists
mod SignalLaws
