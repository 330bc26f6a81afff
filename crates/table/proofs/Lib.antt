-- The laws, in the order of reading. Nothing is decided here. Assumes nothing.
pub mod TableLaws
pub mod TableChoices
pub mod TableExamples
