-- The definitions, in the order of reading. Nothing is decided here. Assumes nothing.
pub mod Lines
pub mod Latch
pub mod BlindTime
pub mod Latest
pub mod Effects
