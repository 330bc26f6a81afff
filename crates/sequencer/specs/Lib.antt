-- The definitions, in the order of reading. Nothing is decided here. Assumes nothing.
pub mod MemoryWord
pub mod MainFields
pub mod States
pub mod MainSequencer
