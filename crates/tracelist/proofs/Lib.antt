-- Laws that several proofs use, and what the listing shows.
mod Cases
mod Buffers
mod Widths
mod Marks
mod Traces
mod Shown
