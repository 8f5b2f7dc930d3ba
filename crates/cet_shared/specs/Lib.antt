pub mod Held
pub mod Rule
pub mod Keys
pub mod Performed
pub mod Closing
