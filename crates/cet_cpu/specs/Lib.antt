pub mod Carried
pub mod Changes
pub mod Code
pub mod Cpu
pub mod Due
pub mod Entry
