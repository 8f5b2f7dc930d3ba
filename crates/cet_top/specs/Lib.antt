pub mod Reading
pub mod Status
pub mod Listing
pub mod Answer
pub mod Serves
