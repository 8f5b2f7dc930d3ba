pub mod Accepts
pub mod Headers
pub mod Notes
pub mod Refusals
pub mod Rules
pub mod Written
