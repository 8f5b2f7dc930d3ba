pub mod Schedule
pub mod Turns
pub mod TracedThreads
pub mod Outcome
pub mod Shown
pub mod SafeRun
