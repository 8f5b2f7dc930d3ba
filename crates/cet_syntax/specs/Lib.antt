pub mod Tokens
pub mod Words
pub mod Operands
pub mod Mnemonics
pub mod Instructions
pub mod Line
pub mod Views
pub mod Parts
