-- Laws that several proofs use.
pub mod Cases
pub mod Shapes
mod Numbers
mod Patterns
pub mod Records
pub mod Scans
pub mod Chain
pub mod Notes
mod Checks
pub mod Length
pub mod Cuts
pub mod Sources
pub mod Unique
