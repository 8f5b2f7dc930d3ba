pub mod HeldLaws
pub mod Filled
pub mod ImageWords
pub mod ByteLaws
