pub mod Text
pub mod Bytes
pub mod Groups
