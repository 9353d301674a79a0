-- Laws that several proofs use, and demands 1 and 3; what is `pub` is lent to the crates above.
pub mod Cases
mod Lists
pub mod Passes
pub mod Endings
mod Steps
mod Closed
mod Standing
pub mod Fits
pub mod Unfits
mod Walks
mod Kept
pub mod Starts
pub mod Demand1
pub mod Demand3
mod FirstCrossing
mod Wholes
mod Rows
mod Reaches
mod OneSurface
pub mod Files
pub mod Long
mod Unique
