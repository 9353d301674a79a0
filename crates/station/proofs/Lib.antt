-- What a controller may count on.
pub mod Cases
mod Carried
mod Demand1
