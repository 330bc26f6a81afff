-- The definitions, in the order of reading. Nothing is decided here. Assumes nothing.
pub mod CoreFields
pub mod Core
pub mod StaysIdle
pub mod QuietStep
pub mod Spoiled
