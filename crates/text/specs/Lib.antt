-- The definitions, in the order of reading. Nothing is decided here. Assumes nothing.
pub mod Text
pub mod Page
pub mod Written
