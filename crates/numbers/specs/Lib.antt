-- What the promises of `numbers` cite, and the notation of every crate above it.
pub mod Arithmetic
pub mod Basic
pub mod Root
pub mod Parts
pub mod Known
