pub mod Layout
pub mod Program
pub mod Answer
pub mod Filling
pub mod Passes
pub mod Places
pub mod Second
