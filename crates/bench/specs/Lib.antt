-- The definitions, in the order of reading. Nothing is decided here. Assumes nothing.
pub mod Asks
pub mod Sessions
pub mod Bench
pub mod Blind
pub mod State
pub mod Bytes
pub mod TestAsks
pub mod TestMode
pub mod Hold
pub mod Fill
