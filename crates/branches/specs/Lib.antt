-- The definitions, in the order of reading. Nothing is decided here. Assumes nothing.
pub mod ReadoutFields
pub mod Readout
pub mod Handshakes
