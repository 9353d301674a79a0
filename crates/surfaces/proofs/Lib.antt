-- Laws that several proofs use.
pub mod Cases
pub mod Refusals
mod Units
mod Terms
mod Again
mod Depths
mod Shared
mod Sheet
mod Ways
mod Passes
pub mod Demand1
pub mod Stops
pub mod Unique
pub mod FirstCrossing
pub mod Chains
