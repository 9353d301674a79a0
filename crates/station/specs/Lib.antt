pub mod Lent
pub mod Cases
pub mod Demand1
pub mod Carried
