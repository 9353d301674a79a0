pub mod Listing
pub mod Shown
pub mod Parts
pub mod Cases
