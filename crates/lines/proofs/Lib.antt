-- Laws on how numbers are put, and on a count that is read. What is `pub` is lent to the crates above.
mod Bits
mod Decimal
pub mod Within
