pub mod Words
pub mod Digits
pub mod Output
pub mod Input
