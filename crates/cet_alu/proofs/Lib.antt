pub mod Wide
pub mod Shifts
pub mod MoveCases
