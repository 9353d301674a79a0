-- Laws that several proofs use, and the theorems on the square root (`Nearest`). What is `pub` is lent to the crates
-- above.
mod Roots
mod Excess
mod Patterns
mod Scale
pub mod Cases
pub mod Choice
pub mod Lists
pub mod Plain
pub mod Signs
pub mod Order
pub mod Finite
mod Values
mod Floats
pub mod Nearest
mod Rounds
pub mod Mirror
pub mod Bounds
pub mod Exceeds
pub mod RootBounds
pub mod Literals
