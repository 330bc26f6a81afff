-- The definitions, in the order of reading. Nothing is decided here. Assumes nothing.
pub mod AccountFields
pub mod Account
pub mod Demand3
pub mod Owed
pub mod OwedExamples
