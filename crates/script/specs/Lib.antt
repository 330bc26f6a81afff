-- The definitions, in the order of reading. Nothing is decided here. Assumes nothing.
pub mod Script
pub mod AnswerLines
