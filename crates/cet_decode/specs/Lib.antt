pub mod Views
pub mod Decoded
pub mod Index
pub mod Lead
