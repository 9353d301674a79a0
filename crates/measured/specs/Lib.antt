pub mod Surfaced
