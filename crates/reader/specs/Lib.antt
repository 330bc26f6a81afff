-- The definitions. Nothing is decided here. Assumes nothing.
pub mod Reader
pub mod Fields
