pub mod Goings
pub mod Steps
pub mod Turns
pub mod Dealing
pub mod Settling
pub mod Gatherings
pub mod Finishing
